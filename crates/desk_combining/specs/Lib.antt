-- What the combining program writes for three inputs, the laws of its sizes, and what is told of a printed combination.
pub mod Combining
pub mod Sizes
pub mod Printed
