-- The laws of the current list by places, and of writing it.
pub mod CurrentLaws
