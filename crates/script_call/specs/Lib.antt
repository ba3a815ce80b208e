-- The numbers of one call in the log.
pub mod Log
