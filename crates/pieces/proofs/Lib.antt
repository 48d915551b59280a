-- Laws that the crates above cite.
pub mod Feeding
pub mod Waits
pub mod Coming
pub mod Stretches
pub mod Writing
pub mod Once
pub mod Program
pub mod Outcomes
