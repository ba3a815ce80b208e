-- The laws of the call that a command asks for.
pub mod AskedLaws
