-- What the contracts of this crate cite.
pub mod Sizes
pub mod Settings
pub mod Account
