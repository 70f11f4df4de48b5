pub mod Answer
pub mod Block
pub mod Degree
