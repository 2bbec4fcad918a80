mod Classes
mod Determined
pub mod RefusalLaws
