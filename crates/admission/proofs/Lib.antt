-- Laws of plans, for the proofs of this crate and of its callers.
pub mod Plans
pub mod Inserting
pub mod Laying
pub mod Admitting
pub mod Running
pub mod Kept
pub mod Limited
pub mod Standing
