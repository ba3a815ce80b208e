-- The laws of the tests, place by place.
pub mod BreakLaws
pub mod LoopTests
