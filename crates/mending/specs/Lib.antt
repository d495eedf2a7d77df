pub mod Mendings
pub mod Seams
