pub mod Digit
pub mod Number
pub mod SaidLaws
pub mod DigitLaws
