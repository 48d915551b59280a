-- The board with its senders and tallies: what the functions of `ledger` are held to.
pub mod Calls
pub mod Answers
pub mod Reached
