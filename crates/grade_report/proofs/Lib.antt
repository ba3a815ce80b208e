-- The place in a report of a result with a reason.
pub mod PlaceLaws
