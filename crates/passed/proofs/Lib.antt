-- The laws of what is known of a list.
pub mod PassedLaws
