-- What each call on an account answers, and what it leaves.
pub mod Answers
pub mod Rebalance
pub mod Close
pub mod Trades
pub mod Returns
pub mod Queries
pub mod Inner
