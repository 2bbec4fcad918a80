mod Sayings
mod Determined
