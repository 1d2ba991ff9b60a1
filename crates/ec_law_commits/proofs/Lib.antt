pub mod Counting
pub mod Backing
pub mod Committing
