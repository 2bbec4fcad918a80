pub mod Comparison
pub mod Keys
pub mod Front
pub mod Determined
