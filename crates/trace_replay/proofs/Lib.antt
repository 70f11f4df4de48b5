pub mod Fold
pub mod Meaning
pub mod Parts
