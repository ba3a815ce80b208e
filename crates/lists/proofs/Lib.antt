-- The laws of tests, lists, ranges and least numbers.
pub mod Tests
pub mod Fails
pub mod Places
pub mod ElemLaws
pub mod Range
pub mod BelowLaws
pub mod Least
pub mod UnderLaws
pub mod Different
pub mod Sorted
pub mod Ascending
pub mod CollectLaws
pub mod KeepLaws
