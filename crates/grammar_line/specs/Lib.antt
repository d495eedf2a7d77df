pub mod Words
pub mod Statements
pub mod Kept
