pub mod Common
pub mod Std
pub mod LookUps
pub mod Edits
pub mod UncountedChanges
mod Effects
pub mod Fits
pub mod Totals
mod Fresh
mod Alone
mod Histories
mod Replied
mod LeftOut
mod Sizes
pub mod SessionRows
pub mod RepliedRows
pub mod SizeRows
pub mod AloneRows
pub mod FreshRows
pub mod StepRows
