-- A look after a loop start.
pub mod Looks
