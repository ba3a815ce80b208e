-- The laws of the sizes: the longest model file, and that the first bytes of a file decide.
pub mod LongestLaws
pub mod CutLaws
