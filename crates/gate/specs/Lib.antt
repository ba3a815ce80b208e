-- What every call but combine applies to its file and its working table, and what becomes of that table.
pub mod Gate
