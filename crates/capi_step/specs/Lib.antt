-- What a step in C does: its report.
pub mod Call
