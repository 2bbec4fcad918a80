pub mod Begin
pub mod SaidLaws
pub mod BeginLaws
