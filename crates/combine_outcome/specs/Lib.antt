-- What a combination answers and writes, when it is refused, and what the file is that it writes.
pub mod Combination
pub mod Claim
pub mod Examples
