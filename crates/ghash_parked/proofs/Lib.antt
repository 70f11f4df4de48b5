pub mod Counts
pub mod Fields
pub mod Layouts
