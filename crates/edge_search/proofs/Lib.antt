-- The laws of a row and of the end of the search.
pub mod EndLaws
pub mod RowLaws
