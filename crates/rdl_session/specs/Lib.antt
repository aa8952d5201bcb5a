pub mod Text
pub mod Fault
pub mod Reading
pub mod Seen
pub mod Spelling
pub mod Meaning
pub mod Written
pub mod Writable
