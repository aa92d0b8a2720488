-- The numbers of a saved account: document 02, request 5.
pub mod Groups
pub mod Placed
pub mod Signed
pub mod Inner
