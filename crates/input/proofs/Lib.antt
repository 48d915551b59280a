-- Laws that the crates above cite.
pub mod Cutting
pub mod Reading
mod Filling
pub mod Outcomes
