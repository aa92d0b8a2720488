-- What the place of a refusal says.
pub mod Statement
