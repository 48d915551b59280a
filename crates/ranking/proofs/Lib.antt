-- What is proved of a question's rule beside its functions.
pub mod Cells
pub mod Entries
pub mod Standing
pub mod Ties
pub mod Scan
pub mod Columns
pub mod Reaching
pub mod Editions
pub mod Whole
pub mod Examples
pub mod Outcomes
