-- Laws that the crates above cite.
pub mod Places
pub mod Reader
pub mod Writer
pub mod RoundTrip
pub mod First
pub mod Answers
pub mod Outcomes
