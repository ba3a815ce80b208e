-- The laws of the grader: what it answers, and that its outcome loses nothing.
pub mod GradeLaws
