-- The laws of a zero setting's sign.
pub mod Rates
pub mod Costs
pub mod Wants
pub mod Fills
pub mod Sound
pub mod Choices
pub mod Trades
pub mod Changes
pub mod Queries
pub mod Histories
pub mod Patterns
pub mod Orders
