-- The bench sender's lines: what the functions of `commands` are held to.
pub mod Lines
pub mod Items
