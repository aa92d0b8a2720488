-- The laws of the house return.
pub mod Folds
pub mod Changes
pub mod Reports
pub mod Unread
pub mod AccountOrder
pub mod Absent
pub mod Figure
pub mod Answers
pub mod Alone
