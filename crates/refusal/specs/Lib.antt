-- What the functions of `refusal` are held to.
pub mod Numbers
pub mod Answers
