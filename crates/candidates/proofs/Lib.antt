-- The laws of the distances from the start and of candidates.
pub mod DistanceLaws
pub mod CandidateLaws
