pub mod Arguments
pub mod Kinds
pub mod Faults
pub mod Streams
pub mod Meetings
pub mod Plain
pub mod Words
pub mod ComparisonWords
