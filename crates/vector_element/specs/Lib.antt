pub mod Element
pub mod Steps
