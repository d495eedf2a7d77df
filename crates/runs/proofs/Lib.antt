pub mod Common
pub mod Std
mod FirstReached
mod Totals
