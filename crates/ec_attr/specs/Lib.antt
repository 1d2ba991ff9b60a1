pub mod Attributes
pub mod Bricks
pub mod Geometry
pub mod GoodGroup
pub mod Head
pub mod Marks
pub mod Name
