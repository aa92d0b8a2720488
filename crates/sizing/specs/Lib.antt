-- What an order may be: its size, drift and truncation, the cash that a buy needs and the largest that fits.
pub mod Sizing
pub mod Afford
pub mod Cash
