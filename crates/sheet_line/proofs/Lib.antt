-- The laws of the line of a list: its parts, and the room that it takes.
pub mod LineLaws
pub mod RoomLaws
