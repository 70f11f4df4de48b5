pub mod Links
pub mod Prepared
