-- What a plan admits and in which order it runs: document 01, 'Planning'.
pub mod Admission
pub mod Running
pub mod Inner
