-- Laws that the crates above cite.
pub mod Texts
pub mod Outcomes
