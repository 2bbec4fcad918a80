pub mod Lists
pub mod Ascii
pub mod Names
pub mod TableLaws
