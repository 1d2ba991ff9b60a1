pub mod Guarding
pub mod Writing
pub mod Sinks
pub mod Owing
pub mod Laws
