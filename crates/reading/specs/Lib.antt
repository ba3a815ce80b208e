-- What the answer to a read tells, and what counts as the input.
pub mod Reading
