-- The laws of what region 1 says of a place of the list.
pub mod EntryLaws
