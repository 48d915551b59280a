-- Laws that the crates above cite.
pub mod Texts
pub mod Frames
pub mod ReadBack
pub mod Outcomes
pub mod Examples
pub mod Starts
