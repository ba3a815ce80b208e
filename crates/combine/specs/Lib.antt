-- What each answer of a combination says.
pub mod Combine
