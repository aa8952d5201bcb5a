mod Examples
pub mod Lines
pub mod Names
pub mod Runs
pub mod Spelled
pub mod Splits
pub mod Sizes
