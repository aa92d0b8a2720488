-- Laws of the definitions of this crate.
pub mod Bits
pub mod Search
pub mod Sizes
pub mod Buys
pub mod Cash
