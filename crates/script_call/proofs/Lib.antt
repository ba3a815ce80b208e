-- The laws of one call.
pub mod CallLaws
