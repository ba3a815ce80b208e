-- The laws of a distance call: the entries, the case that answers, and what the entries say.
pub mod EntryLaws
pub mod DistancesLaws
pub mod ShownLaws
