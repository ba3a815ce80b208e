-- The laws of the next state: the entry that a test reads, the levels, and when the list with the state begins a shortest
-- lasso; and of the list, place by place: what is kept, the list completed, and the roll.
pub mod FollowTests
pub mod FollowLevels
pub mod FollowLaws
pub mod FollowTable
pub mod ExtendLaws
pub mod PlacesTable
pub mod PlacesComplete
pub mod PlacesRoll
