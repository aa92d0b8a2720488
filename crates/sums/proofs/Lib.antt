-- Laws of the sums on words.
pub mod Ints
pub mod TwoWords
pub mod Division
pub mod Signs
pub mod Laws
