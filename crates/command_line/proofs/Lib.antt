pub mod Simple
pub mod Found
pub mod History
pub mod Lone
pub mod Order
pub mod Unknown
