pub mod Reading
pub mod SaidLaws
pub mod Front
pub mod Whole
