-- Laws that the crates above cite.
pub mod Calls
pub mod Searches
pub mod Frames
pub mod Items
pub mod Meaning
pub mod Cutting
pub mod Outcomes
pub mod Printed
pub mod Answers
pub mod Shown
pub mod Own
pub mod Reached
pub mod Steps
