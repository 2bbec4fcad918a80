pub mod Filled
pub mod Determined
