pub mod Sums
pub mod Laws
pub mod Pieces
pub mod Places
pub mod Prefixes
