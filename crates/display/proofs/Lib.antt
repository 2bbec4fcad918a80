mod Runs
mod Determined
