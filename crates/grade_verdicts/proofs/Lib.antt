-- The laws of the verdicts.
pub mod AcceptLaws
pub mod ShownLaws
