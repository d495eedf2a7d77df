pub mod Stacks
pub mod Piles
pub mod Descents
