pub mod Known
pub mod Outputs
