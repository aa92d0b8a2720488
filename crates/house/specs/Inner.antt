-- What proofs and the contracts of inner layers speak of, public ones too: no sentence of the paper is said here, and each ends in a definition that says one.
pub mod Raised
pub mod Parts
pub mod Low
