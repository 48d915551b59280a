-- Who sent the held reports, and each sender's tally: what the functions of `senders` are held to.
pub mod Rows
pub mod Calls
