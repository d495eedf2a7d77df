pub mod Contents
pub mod WrittenOut
pub mod Faults
pub mod Causes
pub mod Numbers
pub mod Meanings
pub mod Kept
pub mod Texts
