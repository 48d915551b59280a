-- The log's items as bytes: what the functions of `items` are held to.
pub mod Items
pub mod Run
