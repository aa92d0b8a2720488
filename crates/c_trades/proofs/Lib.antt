-- The laws of this crate.
pub mod Asking
pub mod Finishing
pub mod Telling
pub mod Holding
pub mod Calling
