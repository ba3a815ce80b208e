-- The laws of the sheet's text.
pub mod SheetLaws
