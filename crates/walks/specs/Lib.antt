-- What the searches from one state and from the marked states find: distances, least lengths through a mark, loop
-- lengths.
pub mod Through
