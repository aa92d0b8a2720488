-- Laws of the definitions of this crate.
pub mod Telling
