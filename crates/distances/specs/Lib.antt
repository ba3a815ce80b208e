-- What a distance call promises: the answer, the output afterwards, and what its entries say.
pub mod Distances
pub mod Shown
