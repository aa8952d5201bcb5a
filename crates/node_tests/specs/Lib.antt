pub mod Nowhere
pub mod Steps
