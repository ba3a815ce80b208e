-- What is known of a list up to a place.
pub mod Passed
