pub mod Message
pub mod FrontLaws
pub mod WriteAgain
pub mod Bijection
pub mod Whole
pub mod Appending
pub mod Sealed
pub mod Longest
