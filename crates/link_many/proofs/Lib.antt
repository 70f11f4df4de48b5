pub mod Hashes
pub mod Records
