pub mod CleanMaps
pub mod HeldLayouts
pub mod Sums
pub mod Turns
