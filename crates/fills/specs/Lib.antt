-- What filling an order means: document 01, 'Filling'.
pub mod Orders
pub mod Records
pub mod Fill
pub mod Inner
