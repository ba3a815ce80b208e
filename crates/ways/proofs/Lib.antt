-- The laws of the way back over a queue.
pub mod BackLaws
pub mod WayLaws
