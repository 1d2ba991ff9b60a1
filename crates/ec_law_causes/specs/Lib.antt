pub mod Counted
pub mod Causes
pub mod Laws
