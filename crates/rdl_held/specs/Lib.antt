pub mod HeldMap
pub mod Turning
