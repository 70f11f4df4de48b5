pub mod Examples
pub mod Marked
pub mod Rows
