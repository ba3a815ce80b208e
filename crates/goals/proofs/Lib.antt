-- The laws of goals, of the ways to them, and of the two tables.
pub mod LastLaws
pub mod GoalLaws
pub mod BehindLaws
pub mod TableLaws
