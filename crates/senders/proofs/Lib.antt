-- Laws that the crates above cite.
pub mod Below
pub mod Runs
pub mod Passing
pub mod Entering
pub mod Kept
pub mod Outcomes
