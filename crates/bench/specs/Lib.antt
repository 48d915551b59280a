-- The bench sender: what its function is held to.
pub mod Bench
