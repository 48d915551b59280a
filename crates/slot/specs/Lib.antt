-- One slot: what the functions of `slot` are held to.
pub mod Asking
pub mod Turn
pub mod Fitness
pub mod Gauges
pub mod Answers
