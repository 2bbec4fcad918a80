mod Values
mod Determined
