-- The numbers of the reasons to refuse a call, and the limits of files, calls and programs.
pub mod Reasons
pub mod Limits
pub mod Numbered
