-- The laws of this crate.
pub mod Filing
pub mod Openings
pub mod Telling
