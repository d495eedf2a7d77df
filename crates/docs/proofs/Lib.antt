pub mod Common
pub mod Std
mod Refusals
mod StoredReading
mod Edits
mod Stamps
mod JoinedEdits
mod AsciiTexts
