pub mod Euclid
pub mod Halves
