-- A grade as a kind and a figure, with the place in a table of its own.
pub mod Grades
