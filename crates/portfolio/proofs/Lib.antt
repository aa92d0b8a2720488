-- Laws of whole calls on an account.
pub mod Refusals
pub mod Rooms
pub mod Worths
pub mod Trading
pub mod Lacking
pub mod Plans
pub mod Soundness
