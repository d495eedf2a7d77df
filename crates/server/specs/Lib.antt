pub mod Losses
pub mod Questions
pub mod Holding
pub mod States
pub mod Loop
