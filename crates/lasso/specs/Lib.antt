-- What a reader has to believe about paths and rounds, in the order of the contract: plain functions on lists and numbers.
pub mod Graph
pub mod Order
pub mod Roll
pub mod Following
pub mod Extends
pub mod Distance
pub mod Rounds
pub mod Values
pub mod Shown
pub mod Ceiling
