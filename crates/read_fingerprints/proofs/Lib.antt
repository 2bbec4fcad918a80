mod Faults
mod Runs
mod Scans
mod Determined
