pub mod Little
pub mod RoundTrip
