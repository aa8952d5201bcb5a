pub mod BodyText
pub mod Counts
pub mod Hexadecimals
