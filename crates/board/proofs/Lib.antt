-- Laws of the board, and what is proved of every reached one.
pub mod Refusals
pub mod Seats
pub mod Told
pub mod Filling
pub mod Slots
pub mod Entry
pub mod Known
pub mod Kept
pub mod Demands
pub mod Reading
pub mod Fit
pub mod Examples
pub mod Outcomes
