pub mod Typed
pub mod SaidLaws
pub mod TypedLaws
pub mod WrittenLaws
