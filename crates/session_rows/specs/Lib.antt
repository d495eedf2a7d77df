pub mod Contents
pub mod Known
pub mod Parts
pub mod Uses
pub mod Written
