pub mod Stripes
pub mod Laws
pub mod Plans
pub mod Filing
