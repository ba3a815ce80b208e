-- What the rounds keep in the working table.
pub mod Promises
