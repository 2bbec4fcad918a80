mod Sayings
mod Addresses
mod Determined
