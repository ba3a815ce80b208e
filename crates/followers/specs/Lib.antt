-- The least state that may stand at the next place.
pub mod Followers
