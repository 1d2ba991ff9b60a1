pub mod Bytes
pub mod Begins
pub mod Given
pub mod Laws
pub mod Striped
pub mod Finals
pub mod HeldStripes
pub mod Built
