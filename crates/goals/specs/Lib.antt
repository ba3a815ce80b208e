-- The states at which a list closes.
pub mod Goals
