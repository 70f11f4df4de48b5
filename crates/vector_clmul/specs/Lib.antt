pub mod Carryless
