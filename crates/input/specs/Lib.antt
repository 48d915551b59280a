-- Text that comes in pieces, and its lines: what the functions of `input` are held to.
pub mod Lines
pub mod Reading
pub mod Inner
