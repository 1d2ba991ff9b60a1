pub mod Polynomial
pub mod Inverse
