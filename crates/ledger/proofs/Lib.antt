-- What is proved of every reached ledger.
pub mod Doors
pub mod Kept
pub mod Promises
pub mod Outcomes
