-- What condition 3 says: any sequence of calls on one accepted file gives the book's answers and lists the roll.
pub mod Calls
pub mod Book
pub mod Claim
pub mod Ceilings
