pub mod Words
pub mod Act
pub mod Guard
pub mod Begin
pub mod WorkedRun
pub mod Clauses
pub mod Facts
pub mod Laws
