-- What is printed of a roll.
pub mod Words
pub mod RollText
