-- The laws of making the tables.
pub mod LevelLaws
pub mod GoalEntries
pub mod AgreeLaws
pub mod TableLaws
