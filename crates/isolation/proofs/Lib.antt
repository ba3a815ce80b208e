-- The laws of files that differ in the marks of one table.
pub mod SameButLaws
pub mod TreatedAlike
pub mod IsolatedLaws
