-- What comes next in a log's bytes: what the functions of `coming` are held to.
pub mod Coming
pub mod Inner
