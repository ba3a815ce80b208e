-- What was read of an input are its first bytes, and what a writer took of a text.
pub mod ReadLaws
pub mod WriteLaws
