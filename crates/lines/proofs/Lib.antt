-- Laws that the crates above cite.
pub mod Words
pub mod Numbers
pub mod ReadBack
pub mod Outcomes
