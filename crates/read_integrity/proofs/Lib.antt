mod Checking
mod Determined
