-- Laws that the crates above cite.
pub mod Going
pub mod Turns
pub mod Frames
pub mod Times
pub mod Gauging
pub mod Rowing
pub mod Stands
pub mod Outcomes
