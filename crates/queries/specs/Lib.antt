-- What the queries with prices answer.
pub mod Queries
pub mod Answers
pub mod Inner
