-- One question: its list, its marks and its search; what the functions of `question` are held to.
pub mod Lines
pub mod Calls
pub mod Inner
