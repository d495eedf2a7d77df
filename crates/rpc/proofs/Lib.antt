pub mod Common
pub mod Std
mod Receiving
mod ListItems
mod KnownMethods
mod Strings
mod Values
mod Texts
mod Plain
mod WrittenMessages
mod MessageRows
mod ReceivedTextRows
mod WritingRows
