-- What a department's mark table has to do with the other's: nothing, while the other's spare bits are zero.
pub mod SameBut
pub mod Isolated
