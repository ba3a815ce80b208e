-- The laws of one combined state's edges.
pub mod BlockLaws
pub mod CopyLaws
pub mod RowLaws
