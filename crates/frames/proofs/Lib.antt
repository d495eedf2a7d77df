pub mod Common
pub mod Std
mod Digits
mod FirstNeedle
mod Rest
mod Splits
mod Writing
mod Faults
mod PrefixDecides
mod Trimmed
mod KeptBytes
mod LongerStreams
mod HeaderPart
mod Searched
mod Lines
mod FieldLines
mod FirstFault
mod FrameRows
