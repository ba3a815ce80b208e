-- The laws of the sheet: what it leaves behind, and the room that it takes.
pub mod LeaveLaws
pub mod LengthLaws
