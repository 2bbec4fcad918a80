mod Xoring
mod Determined
