-- What the contracts of this crate cite.
pub mod Doubles
pub mod Fields
