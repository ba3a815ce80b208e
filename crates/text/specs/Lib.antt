-- Texts in ASCII: numbers in decimal, lines, and what a writer does to a lent text.
pub mod Characters
pub mod Decimal
pub mod Figure
pub mod Writing
