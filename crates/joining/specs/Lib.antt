-- Frames joined into reports: what the functions of `joining` are held to.
pub mod Frame
pub mod Joining
pub mod Run
pub mod Answers
pub mod First
pub mod Inner
