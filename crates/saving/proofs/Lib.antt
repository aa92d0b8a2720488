-- Steps of the code that writes a saved account.
pub mod Putting
pub mod Copies
pub mod Texts
pub mod FieldRuns
pub mod PositionRuns
pub mod Files
