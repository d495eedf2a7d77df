pub mod Empty
pub mod Reading
pub mod Sound
