-- The laws of this crate.
pub mod Runs
pub mod Writing
pub mod Lists
pub mod SettingsKept
pub mod AccountKept
pub mod Sound
pub mod Parts
