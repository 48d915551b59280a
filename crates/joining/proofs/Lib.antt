-- Laws that the crates above cite.
pub mod Fitness
pub mod Frames
pub mod Steps
pub mod Cases
pub mod Answers
pub mod Mixing
pub mod Reached
pub mod MadeUp
pub mod Driving
pub mod Examples
pub mod Outcomes
pub mod LentOutcomes
pub mod Machine
pub mod HeldPayload
