-- The laws of the letter table.
pub mod LetterLaws
