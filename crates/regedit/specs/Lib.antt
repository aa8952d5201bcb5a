pub mod CommandLine
pub mod Explanation
pub mod Files
pub mod OfOutput
pub mod Source
