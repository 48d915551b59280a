-- What the functions of the log program are held to.
pub mod Turns
