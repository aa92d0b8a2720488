-- Records in a lent run of structs, and the number slices that they come from.
pub mod Read
pub mod Run
pub mod Into
