pub mod Shapes
pub mod Shadows
pub mod Fitting
pub mod Laws
