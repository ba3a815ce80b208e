-- Proofs of the table's functions, and the laws of changed tables that callers cite.
pub mod Laws
