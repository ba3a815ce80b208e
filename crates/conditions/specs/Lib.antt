-- What conditions 1 and 2 say: when a call is refused, and what a search that is not refused says; that a full ceiling
-- changes nothing; and what a grade says, also of what is found.
pub mod Reasons
pub mod Condition1
pub mod Condition2
pub mod FullCeiling
pub mod Graded
