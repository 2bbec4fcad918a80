mod Sums
mod Determined
