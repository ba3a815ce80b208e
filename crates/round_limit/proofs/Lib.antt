-- The laws of the limit of a round.
pub mod LimitLaws
