-- What a position is and what a fill does to it.
pub mod Rows
pub mod Shares
pub mod Symbols
pub mod Fills
