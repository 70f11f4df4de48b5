pub mod Bilinear
pub mod Carryless
pub mod FromPieces
pub mod Gathered
pub mod Lanes
pub mod Sew
