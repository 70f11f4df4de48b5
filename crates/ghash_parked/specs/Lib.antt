pub mod Layout
pub mod Park
pub mod Record
