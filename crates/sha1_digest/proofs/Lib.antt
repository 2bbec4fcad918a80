pub mod Padded
mod Words
mod Twenties
mod Taken
mod Mixes
pub mod Whole
pub mod Determined
