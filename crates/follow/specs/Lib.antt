-- The list up to a place, which state may stand after it, the list completed, and the one after a given one.
pub mod Follow
pub mod Places
