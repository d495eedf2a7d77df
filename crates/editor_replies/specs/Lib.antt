pub mod Sent
pub mod Sending
