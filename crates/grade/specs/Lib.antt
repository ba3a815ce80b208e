-- What the grader promises: the verdict on a list with a claimed k and the first place where the list breaks.
pub mod Grade
