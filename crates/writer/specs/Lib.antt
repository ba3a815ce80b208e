-- The model file that holds a graph.
pub mod File
pub mod Tables
pub mod Holds
