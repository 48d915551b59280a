-- Laws that the crates above cite.
pub mod Places
pub mod Placed
pub mod Rooms
pub mod Runs
pub mod Outcomes
