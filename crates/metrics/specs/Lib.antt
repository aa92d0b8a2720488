-- What the figures of a return series are: folds over the list in IEEE arithmetic, binary64, in the Rust's order of operations.
pub mod Double
pub mod Curve
pub mod Tally
pub mod Ratio
pub mod Series
pub mod Figures
pub mod Answers
pub mod Inner
