-- What the laws of the house return speak of.
pub mod Groups
