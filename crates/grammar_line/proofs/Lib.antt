pub mod Common
pub mod Std
mod Blanks
pub mod Marked
