-- The laws of texts: writers one after the other, decimal numbers, and what is written along a list.
pub mod WroteLaws
pub mod EntriesLaws
pub mod DecimalLaws
pub mod FigureLaws
