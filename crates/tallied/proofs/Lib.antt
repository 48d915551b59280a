-- The log program keeps no tally, and its text is what the calls that keep them lead to.
pub mod Same
