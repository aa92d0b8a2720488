-- Laws of the definitions of this crate.
pub mod Raised
pub mod Columns
pub mod Marks
pub mod Adding
pub mod Summing
pub mod LowAdding
pub mod LowEnough
pub mod Reporting
