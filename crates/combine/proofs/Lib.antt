-- The laws of what a combination answers and writes.
pub mod ReasonLaws
