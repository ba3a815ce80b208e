-- What a call answers, with which numbers it is refused, and what it does to the answer table.
pub mod Outcome
pub mod Numbers
pub mod Tables
