-- The laws of the file's numbers, of its marks and of the rules.
pub mod Words
pub mod Reasons
pub mod Kept
pub mod Marks
pub mod ReadAlike
