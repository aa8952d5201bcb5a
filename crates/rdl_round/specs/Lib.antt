pub mod WrittenWords
pub mod Spellable
pub mod OfWords
pub mod Writable
