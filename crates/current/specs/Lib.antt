-- The current list, and what writing it leaves in the answer table.
pub mod Current
