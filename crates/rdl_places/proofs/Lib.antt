pub mod AtPlaces
pub mod CleanItems
pub mod Ends
pub mod Judged
pub mod LastOnes
pub mod Reached
pub mod Scopes
