pub mod Units
pub mod Given
pub mod Rows
pub mod Stripes
pub mod Laws
