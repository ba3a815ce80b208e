-- The laws of walks through a mark, and of the steps that find them.
pub mod ThroughSteps
pub mod ThroughLaws
