-- What the writers of one combined state's edges do.
pub mod Row
