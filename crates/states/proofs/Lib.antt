pub mod Common
pub mod Std
pub mod Moves
pub mod Machines
pub mod Descents
pub mod StackWays
pub mod Matches
