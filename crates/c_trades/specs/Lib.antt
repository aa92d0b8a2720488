-- What the contracts of this crate cite.
pub mod Asked
pub mod Told
pub mod Calls
pub mod Returns
pub mod Inner
