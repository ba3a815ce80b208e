-- The examples of the contract, as tables with one claim each: calls, steps, grades and distances.
pub mod Examples
pub mod Steps
pub mod Grades
pub mod Distances
