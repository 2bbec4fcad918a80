mod Choosing
mod Determined
