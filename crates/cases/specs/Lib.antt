-- Document 01, 'Checked cases', and the cases of document 02.
pub mod Rows
pub mod Table
pub mod Requests
