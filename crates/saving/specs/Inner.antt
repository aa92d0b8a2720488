-- What only the functions inside say.
pub mod Putting
