mod Writes
mod Determined
