-- What a C caller is told of a group.
pub mod Lent
pub mod Inner
