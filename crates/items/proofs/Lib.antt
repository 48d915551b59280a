-- Laws that the crates above cite.
pub mod Signs
pub mod Writing
pub mod Reading
pub mod Runs
pub mod Outcomes
