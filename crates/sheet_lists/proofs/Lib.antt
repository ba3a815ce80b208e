-- The laws of the lists that are printed, and the room they take.
pub mod ClosingLaws
pub mod RoomLaws
pub mod PrintLaws
