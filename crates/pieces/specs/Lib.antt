-- A log that comes in pieces: what the functions of `pieces` are held to.
pub mod Machine
pub mod Program
