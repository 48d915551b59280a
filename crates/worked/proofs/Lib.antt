-- The worked examples under one claim.
pub mod Ties
pub mod Table
