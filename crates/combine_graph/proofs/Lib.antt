-- The laws of the combination of two files.
pub mod CombinedLaws
