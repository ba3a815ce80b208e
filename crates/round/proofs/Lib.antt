-- The laws of one round.
pub mod Laws
pub mod TableLaws
