pub mod Refusal
pub mod TypeNumber
pub mod TypeLaws
pub mod SaidLaws
