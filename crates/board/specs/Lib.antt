-- The window with its 32 slots: what the functions of `board` are held to.
pub mod Work
pub mod Calls
pub mod Answers
pub mod Reached
