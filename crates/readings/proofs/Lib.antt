pub mod Common
pub mod Std
pub mod Texts
pub mod Results
pub mod SumsRows
pub mod SumTokenRows
pub mod ReadingRows
mod Trees
mod EachReadingExists
mod EachReadingIsUnique
mod Decided
mod EachEditIsCountedOnce
mod EachEditIsCounted
