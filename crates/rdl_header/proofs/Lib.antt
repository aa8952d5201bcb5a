pub mod AddedLines
pub mod Apart
pub mod FirstClash
pub mod Masks
pub mod Paths
pub mod SharedPlaces
pub mod StandingNames
pub mod WordMacros
