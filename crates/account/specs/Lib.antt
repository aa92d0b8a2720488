-- What an account is, when it is sound, and what opening, setters and queries answer.
pub mod Settings
pub mod Account
pub mod Calls
pub mod Inner
