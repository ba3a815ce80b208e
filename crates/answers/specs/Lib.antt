-- The answers of search and next as kinds and figures.
pub mod Kinds
