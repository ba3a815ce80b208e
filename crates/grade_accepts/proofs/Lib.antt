-- The laws of the flags of a list.
pub mod FlagLaws
