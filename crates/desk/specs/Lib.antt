-- What the desk sheet program prints for an input, the laws of its sizes, example D, and what is told of a printed sheet.
pub mod Desk
pub mod Sizes
pub mod Examples
pub mod Printed
