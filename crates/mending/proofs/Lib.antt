pub mod Mended
pub mod Looks
pub mod Checks
