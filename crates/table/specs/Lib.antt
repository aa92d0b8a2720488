-- What a table of positions is.
pub mod Keyed
pub mod Rows
pub mod Inner
