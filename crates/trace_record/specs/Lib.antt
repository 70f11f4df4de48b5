pub mod Record
pub mod RoundTrip
