pub mod Left
pub mod Records
