-- The laws of this crate.
pub mod Columns
pub mod Lists
pub mod Puts
pub mod Records
pub mod Weights
