-- Laws of the queries with prices.
pub mod Checked
pub mod Walks
pub mod Columns
pub mod Snapshots
