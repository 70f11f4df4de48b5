pub mod Counted
pub mod Gcm
pub mod Pieces
