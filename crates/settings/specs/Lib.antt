pub mod Settings
pub mod Guesses
