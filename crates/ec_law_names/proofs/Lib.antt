pub mod Writes
pub mod Shapes
pub mod Ends
pub mod Givens
pub mod Plans
pub mod Making
pub mod Built
pub mod Worlds
