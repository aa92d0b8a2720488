-- The saved form of an account: document 02, 5.
pub mod Fields
pub mod Inner
pub mod Texts
pub mod Values
pub mod Writing
