-- Laws that the crates above cite.
pub mod Parts
pub mod Coming
pub mod Outcomes
