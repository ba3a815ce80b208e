-- The laws of the player: the calls that a script asks for, the loop over the calls, and proper scripts.
pub mod PlayedLaws
pub mod PlayLaws
pub mod ProperLaws
