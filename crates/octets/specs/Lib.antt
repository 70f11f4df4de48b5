pub mod BigEndian
pub mod Bytes
pub mod LittleEndian
