-- Laws that the proofs of the log program cite.
pub mod Handing
