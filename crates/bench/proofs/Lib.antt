-- Laws that the crates above cite.
pub mod Sending
pub mod Joins
pub mod RoundTrip
pub mod Older
pub mod Examples
pub mod Outcomes
