pub mod Clmul
pub mod Pieces
