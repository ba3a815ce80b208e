-- Where a given list leaves the model.
pub mod Breaks
