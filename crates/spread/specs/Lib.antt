-- How far the search looks.
pub mod Bounds
