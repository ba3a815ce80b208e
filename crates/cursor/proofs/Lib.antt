-- The laws of the way through the roll.
pub mod LoadLaws
pub mod RollPlaces
pub mod TableLaws
pub mod CursorLaws
