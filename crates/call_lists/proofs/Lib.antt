-- Laws of the lists of a call, for the proofs of this crate and of its callers.
pub mod Lists
pub mod Firsts
pub mod Checks
pub mod Prices
pub mod Sorted
