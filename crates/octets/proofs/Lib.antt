pub mod BigEndian
pub mod LittleEndian
pub mod Stores
pub mod Tests
