mod Searching
mod Finding
mod Determined
pub mod FirstLaws
pub mod WholeLaws
