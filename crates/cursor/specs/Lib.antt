-- What the working table holds on the way through the roll, and what each step of that way leaves there.
pub mod Cursor
