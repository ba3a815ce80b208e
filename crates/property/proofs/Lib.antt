-- The laws of the property file.
pub mod StaysLaws
pub mod PropertyLaws
pub mod ChosenLaws
