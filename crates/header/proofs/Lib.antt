mod Fronts
mod Determined
