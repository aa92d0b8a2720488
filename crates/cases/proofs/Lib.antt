-- The claims over the tables of cases.
pub mod Cases
pub mod Requests
