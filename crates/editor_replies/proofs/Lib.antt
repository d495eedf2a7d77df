pub mod Counts
pub mod Wholes
mod Fractions
pub mod Levels
mod OutlineRows
