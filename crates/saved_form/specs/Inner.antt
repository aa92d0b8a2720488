-- What only the functions that move through a file say.
pub mod Fields
