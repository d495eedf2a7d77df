pub mod Common
pub mod Std
mod Flags
mod Commands
mod Lines
mod Read
