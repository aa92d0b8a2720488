-- Saving and loading on lent bytes.
pub mod Saved
