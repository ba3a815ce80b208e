-- The laws of the states that can start the loop of a shortest lasso: their loop lengths, the flags, and how the entries come.
pub mod StartLaws
pub mod StartsFlags
pub mod StartsEntries
pub mod StartsFilling
