-- A log whose calls keep senders and tallies.
pub mod Text
