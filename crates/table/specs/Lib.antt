-- What a change of a table leaves and what it keeps.
pub mod Changes
