-- Laws that the crates above cite.
pub mod Serving
pub mod Outcomes
