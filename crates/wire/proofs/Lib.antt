-- Laws that the crates above cite.
pub mod Numbers
pub mod Stores
pub mod Fields
pub mod Outcomes
