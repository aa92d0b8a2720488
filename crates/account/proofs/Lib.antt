-- Laws of accounts, for the proofs of this crate and of its callers.
pub mod Columns
pub mod Full
pub mod Tables
pub mod Holdings
pub mod Changes
pub mod SoundAccounts
mod Checks
