-- What the rounds come to.
pub mod Begun
