-- Answers as a kind and figures, and what happens where the table for the figures is too short.
pub mod Kinds
pub mod Numbered
pub mod Short
