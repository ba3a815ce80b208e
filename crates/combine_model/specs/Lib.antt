-- What a reader has to believe about a combination: the property, the combined model, and what its paths are.
pub mod Product
pub mod Paths
