-- The laws of a combination.
pub mod ReasonLaws
pub mod ClaimLaws
pub mod PropertyLaws
pub mod ImpliedLaws
