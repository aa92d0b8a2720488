-- What condition 3 speaks of.
pub mod Running
pub mod Statement
pub mod OnAccount
pub mod CashFirst
pub mod Examples
