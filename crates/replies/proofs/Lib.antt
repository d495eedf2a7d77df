pub mod Common
pub mod Std
pub mod Replies
pub mod SentItems
pub mod Objects
mod ReplyRows
