-- The two tables after a loop start, as they are made.
pub mod Tables
