pub mod Crc
pub mod Octets
pub mod Taken
