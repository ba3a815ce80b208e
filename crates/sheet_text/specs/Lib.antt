-- The text of the desk sheet, from the file's bytes, and the answer table afterwards.
pub mod SheetText
