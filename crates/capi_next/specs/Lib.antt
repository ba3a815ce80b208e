-- What a next in C does: its report, and the tables afterwards.
pub mod Call
