mod Fields
mod Parts
mod Determined
