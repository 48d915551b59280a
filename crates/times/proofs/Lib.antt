-- Laws that the crates above cite.
pub mod Steps
pub mod Mixing
pub mod Driving
pub mod Reached
pub mod MadeUp
pub mod RoundTrip
pub mod Lent
pub mod Examples
pub mod Outcomes
