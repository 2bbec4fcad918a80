mod Determined
mod Sums
