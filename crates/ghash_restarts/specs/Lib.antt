pub mod Examples
pub mod Restarts
pub mod RoundTrip
