-- The laws of the rounds of a search.
pub mod RecordLaws
