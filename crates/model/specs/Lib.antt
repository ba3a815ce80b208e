-- What a reader has to believe about an accepted file: the graph it holds, its header, the answer of its check.
pub mod Model
pub mod Values
pub mod Stays
pub mod Shown
