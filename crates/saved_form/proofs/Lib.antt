-- What the functions of the saved form rest on.
pub mod Fields
pub mod Signed
