-- Times that candump prints: what the functions of `stamps` are held to.
pub mod Stamps
