-- What a reader has to believe about the letter table.
pub mod Letters
