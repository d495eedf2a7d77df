pub mod Shown
pub mod Kept
