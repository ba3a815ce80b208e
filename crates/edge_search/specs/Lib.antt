-- What the search leaves in the working table.
pub mod Promises
