pub mod Agreement
pub mod Counting
pub mod GoodGroups
pub mod Steps
