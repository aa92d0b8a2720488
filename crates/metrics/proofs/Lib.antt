-- Laws of the figures, by what they speak of.
pub mod Answered
pub mod Double
pub mod EverySeries
pub mod FiniteEquity
pub mod Gathering
pub mod NothingAdded
pub mod OnePass
pub mod SumStart
