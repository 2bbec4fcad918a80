pub mod Plan
pub mod SaidLaws
