pub mod Counting
pub mod Numbered
pub mod Shrinking
pub mod Entries
pub mod Ranked
