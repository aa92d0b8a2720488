-- Laws of deals, records and runs of fills.
pub mod Deals
pub mod Storing
pub mod Filling
pub mod Running
pub mod Cash
pub mod Soundness
pub mod Fronts
