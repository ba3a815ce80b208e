-- The laws of what calls answer and write.
pub mod OutcomeLaws
pub mod ReadBack
