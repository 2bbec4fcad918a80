mod Begins
mod Determined
