mod OfferTexts
mod Refusals
pub mod OwnAlone
mod ReplyRows
mod Repaired
mod Symbols
