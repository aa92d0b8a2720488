-- Laws of a plan as it is made, for the proofs of this crate and of its callers.
pub mod Adding
pub mod Held
pub mod Made
