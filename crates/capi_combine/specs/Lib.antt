-- What a combination in C does: its report, its one figure, and the output afterwards.
pub mod Figures
pub mod Call
