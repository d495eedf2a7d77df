pub mod Header
pub mod Frames
pub mod Write
pub mod Contents
pub mod Kept
