-- What loading makes of an account that was saved, and what the laws of it compare.
pub mod Zeros
pub mod Calls
pub mod Told
pub mod History
