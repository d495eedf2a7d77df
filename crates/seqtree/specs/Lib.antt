pub mod Monoid
pub mod Tree
pub mod Parts
pub mod Falls
pub mod Goal
pub mod Saturated
pub mod Chunks
