-- What the contracts of this crate cite.
pub mod Entries
pub mod Lists
pub mod Records
pub mod Weights
pub mod Inner
