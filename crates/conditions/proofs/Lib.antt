-- The proofs of conditions 1 and 2, that a full ceiling changes nothing, and of what grades say.
pub mod FirstLaws
pub mod Condition1
pub mod Condition2
pub mod FullCeiling
pub mod Graded
