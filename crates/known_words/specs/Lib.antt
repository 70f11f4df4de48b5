pub mod Call
pub mod Marked
