pub mod First
pub mod SaidLaws
