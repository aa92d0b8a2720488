-- What the C interface says that the crates behind it do not.
pub mod Halves
pub mod Lent
