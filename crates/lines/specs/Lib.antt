-- Words and numbers in a line of text: what the functions of `lines` are held to.
pub mod Words
pub mod Numbers
