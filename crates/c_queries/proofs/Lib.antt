-- What the proofs of this crate share.
pub mod Given
pub mod Asking
pub mod Telling
pub mod FirstPlaces
