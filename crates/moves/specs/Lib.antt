-- The list as it grows and shrinks.
pub mod Moves
