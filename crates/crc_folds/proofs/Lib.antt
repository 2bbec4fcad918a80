pub mod Walk
pub mod Multiple
pub mod Waits
mod Front
mod Determined
