-- Laws of symbols, shares and positions.
pub mod Counts
pub mod Symbols
pub mod Fills
