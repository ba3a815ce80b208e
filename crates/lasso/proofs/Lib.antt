-- The laws of paths, lassos, distances and rounds.
pub mod Walk
pub mod Distance
pub mod Lasso
pub mod Cut
pub mod OrderLaws
pub mod RollLaws
pub mod PlaceByPlace
pub mod Extend
pub mod RoundLaws
pub mod CeilingLaws
pub mod ShownLaws
