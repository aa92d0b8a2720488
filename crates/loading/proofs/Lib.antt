-- What the functions that read a saved account rest on.
pub mod Entries
pub mod Loading
pub mod Numbers
pub mod Padded
pub mod Texts
