pub mod Texts
pub mod MapText
pub mod ItemText
