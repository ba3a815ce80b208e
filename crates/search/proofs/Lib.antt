-- The laws of a search.
pub mod SearchLaws
