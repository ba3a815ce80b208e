-- What a reader has to believe about the combination of two files.
pub mod Combined
