pub mod Refusals
pub mod Rows
pub mod Tests
pub mod Writer
