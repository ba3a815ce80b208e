-- What the working table of a search holds: the lists of its sources by level, and the states that it has reached.
pub mod Regions
pub mod Buckets
pub mod Search
