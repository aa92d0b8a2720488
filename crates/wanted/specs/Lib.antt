-- What a rebalance wants, before any cap: document 01, 'Planning'.
pub mod Equity
pub mod Plan
pub mod Inner
