-- Laws of costs.
pub mod Constants
pub mod Costs
