-- The laws of the lists of sources, of the queue, and of admitting a level's sources.
pub mod BucketLaws
pub mod PushLaws
pub mod AdmitLaws
