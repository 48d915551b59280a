-- Laws that the crates above cite.
pub mod Decimal
pub mod Lengths
pub mod Places
pub mod Lists
pub mod Outcomes
