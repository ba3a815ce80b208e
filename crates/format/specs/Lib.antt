-- What a reader has to believe about the bytes of a model file: its fields, the numbered reasons to refuse it, and
-- what they say of its mark tables.
pub mod Bytes
pub mod Layout
pub mod Rules
pub mod Marks
pub mod ExampleD
