-- The laws of "next".
pub mod NextLaws
