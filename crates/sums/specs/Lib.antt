-- What the sums on 64-bit words mean: document 01, 'Sums'.
pub mod Sums
pub mod Wide
