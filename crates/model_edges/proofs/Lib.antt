-- The laws of looking for an edge.
pub mod Halving
