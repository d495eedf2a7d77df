pub mod Words
pub mod Texts
pub mod Mended
pub mod Places
pub mod Offers
