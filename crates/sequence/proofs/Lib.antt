-- Condition 3, and what the book says under a ceiling.
pub mod Places
pub mod Sequence
pub mod Ceilings
