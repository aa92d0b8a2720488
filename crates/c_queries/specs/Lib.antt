-- What the contracts of this crate cite.
pub mod Asked
pub mod Told
pub mod Reports
pub mod Inner
