pub mod Escape
pub mod Span
pub mod Blame
pub mod Zeros
