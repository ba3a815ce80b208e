-- The laws of the search's working table, of its bound, and of what the searches find for their callers.
pub mod SearchLaws
pub mod BoundLaws
pub mod ListLaws
