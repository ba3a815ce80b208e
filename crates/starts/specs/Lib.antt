-- The states that can start the loop of a shortest lasso.
pub mod LoopStarts
pub mod Flags
