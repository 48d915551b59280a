-- The held reports in their arrays: what the functions of `window` are held to.
pub mod Rows
pub mod History
