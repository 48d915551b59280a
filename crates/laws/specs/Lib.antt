-- Words on lists and numbers that definitions use.
pub mod Lists
pub mod Whole
