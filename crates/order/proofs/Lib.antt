-- Laws of running orders, and condition 3.
pub mod Perms
pub mod Rule
pub mod Fills
pub mod OrderTheorem
pub mod Accounts
pub mod OwnOrders
pub mod CashFirst
pub mod Called
pub mod Cases
pub mod Counters
