pub mod File
pub mod Deed
pub mod Clauses
pub mod Facts
pub mod Laws
pub mod WorkedDeeds
