-- The laws of the least level and the least length.
pub mod HitLaws
