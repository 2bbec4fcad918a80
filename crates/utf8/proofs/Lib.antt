pub mod Count
pub mod Determined
pub mod Tails
pub mod Rows
pub mod Walk
pub mod Marks
