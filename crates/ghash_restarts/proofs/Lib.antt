pub mod Examples
pub mod Memory
pub mod Restarts
pub mod RoundTrip
