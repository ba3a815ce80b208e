-- The laws of what the rounds come to.
pub mod BegunLaws
