-- The laws of a script's commands.
pub mod CommandLaws
