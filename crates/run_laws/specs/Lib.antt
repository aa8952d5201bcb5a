pub mod NewParts
pub mod Histories
pub mod Stops
pub mod Found
