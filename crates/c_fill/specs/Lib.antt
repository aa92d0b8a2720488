-- What a fill asked by itself means.
pub mod Single
pub mod Inner
