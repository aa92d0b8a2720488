-- What the contracts of this crate cite.
pub mod Entries
pub mod Opening
pub mod Setters
pub mod Queries
pub mod Inner
