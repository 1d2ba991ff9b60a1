pub mod Turns
pub mod WorkedLog
pub mod Link
pub mod Start
pub mod Laws
pub mod Conducts
pub mod Grants
pub mod Chosen
