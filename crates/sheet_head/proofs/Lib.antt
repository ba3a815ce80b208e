-- The law of the lines before the lists.
pub mod HeadLaws
