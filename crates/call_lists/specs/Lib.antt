-- What may be wrong with the lists of a call, and the price that a list gives.
pub mod Lists
pub mod Checks
pub mod Inner
