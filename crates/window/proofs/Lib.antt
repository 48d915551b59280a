-- Laws that the crates above cite.
pub mod Ring
pub mod Fitness
pub mod Reports
pub mod Standing
pub mod History
pub mod Outcomes
