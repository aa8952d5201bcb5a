pub mod CommandLine
pub mod OfMaps
