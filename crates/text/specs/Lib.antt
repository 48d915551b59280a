-- The log program's lines: what the functions of `text` are held to.
pub mod Text
