pub mod Nesting
pub mod Stacks
pub mod Symbols
pub mod Found
