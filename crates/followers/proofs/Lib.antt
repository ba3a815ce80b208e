-- The laws of the least state that may stand at the next place.
pub mod RowLaws
pub mod TriedLaws
