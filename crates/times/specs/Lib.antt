-- Frames with times: what the functions of `times` are held to.
pub mod Timed
pub mod Run
pub mod Inner
