pub mod Then
pub mod Windows
pub mod Reads
pub mod Reference
pub mod WorkedSinks
