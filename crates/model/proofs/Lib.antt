-- The laws of the model file.
pub mod Implied
pub mod Steps
pub mod Answers
pub mod Laws
pub mod StaysLaws
