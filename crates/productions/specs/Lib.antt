pub mod First
pub mod Productions
pub mod Lookaheads
pub mod Symbols
