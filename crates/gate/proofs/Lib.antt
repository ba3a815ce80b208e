-- The laws of the gate: the first reason that holds, in the table that every call applies with its own reasons after it.
pub mod GateLaws
