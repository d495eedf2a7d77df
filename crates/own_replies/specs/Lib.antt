pub mod States
pub mod Replies
pub mod Servers
