pub mod Harmless
pub mod Targets
pub mod Sound
pub mod Verdicts
pub mod Search
pub mod Laws
pub mod Exact
