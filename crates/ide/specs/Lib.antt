pub mod Steps
pub mod Written
pub mod Runs
pub mod Sessions
pub mod Loop
pub mod Servers
