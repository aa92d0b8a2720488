-- What the entries rest on.
pub mod Filing
