pub mod Backs
pub mod Changes
pub mod Numbers
pub mod Once
pub mod Order
pub mod Rounds
pub mod Shapes
pub mod Values
