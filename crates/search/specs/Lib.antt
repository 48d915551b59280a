-- What the best k are, and what a search over cells does.
pub mod Best
pub mod Search
pub mod Inner
