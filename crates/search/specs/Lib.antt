-- What a search promises: the answer with every figure in it, and the answer table afterwards.
pub mod Search
