-- A report and its payload: what the functions of `report` are held to.
pub mod Payload
pub mod Answers
pub mod First
pub mod Inner
