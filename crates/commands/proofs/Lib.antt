-- Laws that the crates above cite.
pub mod Reading
pub mod Writing
pub mod ReadBack
pub mod Outcomes
pub mod Examples
