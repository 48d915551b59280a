-- Captured frames as text: what the functions of `capture` are held to.
pub mod Capture
pub mod Inner
