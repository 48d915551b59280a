-- A stretch of whole items, done where the log stands: what the functions of `stretch` are held to.
pub mod Inner
pub mod Doing
