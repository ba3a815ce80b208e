-- The call that a command of a script asks for.
pub mod Asked
