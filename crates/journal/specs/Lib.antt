-- A log as bytes and the text that it fixes: what the functions of `journal` are held to.
pub mod Log
pub mod Meaning
pub mod Reached
pub mod Inner
