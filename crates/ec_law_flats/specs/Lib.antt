pub mod Plans
pub mod Laws
pub mod Stripes
pub mod StripeLaws
