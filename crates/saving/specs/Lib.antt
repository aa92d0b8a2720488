-- Writing a saved account: document 02, 5.
pub mod Inner
pub mod Saving
