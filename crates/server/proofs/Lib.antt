pub mod Common
pub mod Std
mod Refusals
mod Shown
mod MapEntries
mod Holding
pub mod Bytes
mod Runs
mod CutSessions
mod Loop
