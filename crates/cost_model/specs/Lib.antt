-- What a trade costs.
pub mod Costs
