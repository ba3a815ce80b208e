-- The desk sheet: what is written to the text that is lent, and the tables afterwards.
pub mod Sheet
