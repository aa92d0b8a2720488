-- What the laws of the saved form say.
pub mod Statement
pub mod History
