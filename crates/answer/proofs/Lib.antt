-- Laws of the definitions of this crate.
pub mod Choice
pub mod Answers
pub mod Places
