pub mod Along
pub mod History
pub mod Faults
pub mod Example
