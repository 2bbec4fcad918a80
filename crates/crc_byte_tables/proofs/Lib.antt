mod Determined
mod Making
pub mod TablesLaws
