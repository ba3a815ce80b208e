-- The laws of a combination.
pub mod PairLaws
pub mod PairLists
pub mod ProductLaws
pub mod PathsLaws
