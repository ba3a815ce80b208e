-- What a step promises: the answer with every figure in it.
pub mod Step
