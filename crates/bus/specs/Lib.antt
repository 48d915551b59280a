-- All sessions in bytes that a caller lends: what the functions of `bus` are held to.
pub mod Room
