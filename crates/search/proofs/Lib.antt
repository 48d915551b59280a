-- The laws of best k, of the search, and of a list between searches.
pub mod Best
pub mod Least
pub mod Search
pub mod Guard
