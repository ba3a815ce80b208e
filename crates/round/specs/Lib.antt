-- What a round asks of the working table, and what it puts there.
pub mod Promises
