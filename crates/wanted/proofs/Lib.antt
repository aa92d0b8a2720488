-- Laws of what a rebalance wants.
pub mod Turns
pub mod Worth
pub mod Drifts
pub mod Plans
pub mod Room
