pub mod Accepted
pub mod Along
pub mod AsLaid
pub mod Inner
pub mod Laying
pub mod Nodes
pub mod Placed
pub mod Walks
