pub mod Rules
mod Values
mod Determined
