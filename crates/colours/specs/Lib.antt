pub mod Parts
pub mod Deltas
pub mod Encoding
pub mod Steps
