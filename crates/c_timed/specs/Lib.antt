-- What the contracts of this crate cite.
pub mod Made
pub mod Calls
