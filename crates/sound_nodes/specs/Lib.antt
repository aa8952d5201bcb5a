pub mod Instances
pub mod Laws
pub mod Maps
pub mod Rows
pub mod Says
