pub mod Index
pub mod Clauses
pub mod WorkedIndex
pub mod Files
