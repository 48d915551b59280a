-- The laws.
pub mod Tests
pub mod Lists
pub mod Orders
pub mod Whole
pub mod Words
pub mod Outcomes
