-- The laws of the program's sizes, and example D.
pub mod CutLaws
pub mod SizeLaws
pub mod Examples
