pub mod Gathered
pub mod Givers
pub mod Known
pub mod Parts
