-- The proofs of the claims: the numbers of refusals, that nothing is lost, and that a refused call changes nothing that was
-- lent but the working table.
pub mod Numbers
pub mod NothingLost
pub mod Refusals
