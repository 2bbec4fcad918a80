pub mod Append
pub mod AppendLaws
