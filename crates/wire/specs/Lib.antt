-- Numbers and tagged fields as bytes: what the functions of `wire` are held to.
pub mod Bytes
