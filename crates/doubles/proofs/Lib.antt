-- The laws of this crate.
pub mod Fields
pub mod Finite
pub mod Whole
pub mod Even
pub mod Signs
pub mod Away
pub mod Order
pub mod Laws
pub mod Chain
