-- What is proved of `refusal` beside its functions.
pub mod Numbers
pub mod Outcomes
pub mod Answers
