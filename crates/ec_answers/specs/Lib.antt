pub mod Choice
pub mod Grouping
pub mod Laws
