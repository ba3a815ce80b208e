-- What the player does: the calls that a script asks for, and the log and the tables after them.
pub mod Played
pub mod Log
