-- The commands of a script.
pub mod Commands
