-- Laws of records read from number slices and stored into a run.
pub mod Reading
pub mod Fronting
pub mod Writing
