-- Laws of a fill asked by itself.
pub mod Alone
pub mod Refusals
