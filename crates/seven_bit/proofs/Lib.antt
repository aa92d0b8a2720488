-- Laws of the definitions of this crate, the smallest cases, and the steps of its code.
pub mod Groups
pub mod Parts
pub mod Signed
pub mod Placed
pub mod Cases
pub mod Reading
pub mod Faults
pub mod Writing
