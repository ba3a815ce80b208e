-- How many bytes of each input of a program decide, and how long a model file can be.
pub mod Sizes
