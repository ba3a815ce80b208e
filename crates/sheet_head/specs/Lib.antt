-- The words of the desk sheet, and the lines before its lists.
pub mod Words
pub mod Head
