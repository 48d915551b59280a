-- Laws that the crates above cite.
pub mod Examples
pub mod Outcomes
