mod Looking
mod Determined
