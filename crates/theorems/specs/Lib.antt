pub mod Changed
pub mod Execution
pub mod Overlap
pub mod Policies
pub mod Pseudocode
pub mod Witnesses
