-- Plain functions on lists, options and numbers that the definitions of the layers above are written with; no graph.
pub mod Lists
pub mod Decides
pub mod Least
pub mod Limit
