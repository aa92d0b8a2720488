-- The laws of the place of a refusal.
pub mod Firsts
pub mod Lists
pub mod Calls
pub mod Words
