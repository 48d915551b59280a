-- A list in its two columns: what the functions of `list` are held to.
pub mod Lines
pub mod Bars
pub mod Rows
pub mod Inner
