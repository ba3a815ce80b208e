-- The test of a next state.
pub mod Tested
