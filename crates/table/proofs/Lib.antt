-- Laws of tables, for the proofs of this crate and of its callers.
pub mod Keyed
pub mod Places
pub mod Opening
pub mod Stores
pub mod Zipped
pub mod Posting
pub mod Ordering
