-- The least level at which a state is hit, and the least length into a target.
pub mod Hit
