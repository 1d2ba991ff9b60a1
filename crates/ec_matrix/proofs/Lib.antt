pub mod Matrices
pub mod Values
pub mod Roots
pub mod Steps
pub mod Points
pub mod Algorithms
