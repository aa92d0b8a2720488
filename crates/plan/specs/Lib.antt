-- The plan of a rebalance as it is made in columns.
pub mod Inner
