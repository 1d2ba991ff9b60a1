pub mod Group
pub mod Moves
pub mod Acts
pub mod Laws
pub mod WorkedIndex
pub mod Files
