-- The laws of the check.
pub mod HeadLaws
