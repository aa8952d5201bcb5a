pub mod Words
pub mod Operands
pub mod Verbs
pub mod Edits
pub mod Commands
pub mod Seen
pub mod Spelled
