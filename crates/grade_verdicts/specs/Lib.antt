-- What a reader has to believe about a verdict: when each is given, and what it says.
pub mod Verdict
pub mod Shown
