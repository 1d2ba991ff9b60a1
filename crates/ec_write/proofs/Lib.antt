pub mod Filling
pub mod Following
pub mod Gathered
pub mod Givers
pub mod Tails
