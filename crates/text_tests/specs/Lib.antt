pub mod Maxima
