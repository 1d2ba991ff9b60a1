pub mod Extend
pub mod Naming
pub mod Given
pub mod Named
pub mod Worlds
