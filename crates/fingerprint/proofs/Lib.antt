mod Sums
mod Determined
pub mod StretchLaws
