mod Determined
mod Halves
