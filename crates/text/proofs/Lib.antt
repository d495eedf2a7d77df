pub mod Common
pub mod Std
pub mod AsciiStart
mod Lines
mod Sizes
mod NextPosition
