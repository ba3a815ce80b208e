-- The tables of examples hold.
pub mod Examples
pub mod Steps
pub mod Grades
pub mod Distances
