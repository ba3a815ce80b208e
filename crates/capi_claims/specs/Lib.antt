-- What is claimed of the C functions: no answer is lost in kinds and figures, and a refused call changes nothing that was
-- lent but the working table.
pub mod NothingLost
pub mod Refusals
