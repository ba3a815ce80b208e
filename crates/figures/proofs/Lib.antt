-- The laws of figures written to a table, and of calls with a table that is too short or has room.
pub mod ReportLaws
pub mod CallLaws
