-- What the house return of a group of accounts means: document 02, 2. Sums over whole numbers, growth and product in binary64.
pub mod Group
pub mod Places
pub mod House
pub mod Inner
