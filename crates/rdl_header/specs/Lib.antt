pub mod HeaderFaults
pub mod HeaderText
pub mod Lines
pub mod Marks
pub mod Places
