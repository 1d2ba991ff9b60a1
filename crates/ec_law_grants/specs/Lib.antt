pub mod Alters
pub mod Became
pub mod Laws
