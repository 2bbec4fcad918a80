mod Fronts
mod Scans
mod Answers
mod Determined
pub mod WholeLaws
