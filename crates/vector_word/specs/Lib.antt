pub mod Word
pub mod Writer
