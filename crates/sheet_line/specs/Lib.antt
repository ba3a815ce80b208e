-- The line of a list of states, in ASCII.
pub mod Line
