pub mod Reopening
