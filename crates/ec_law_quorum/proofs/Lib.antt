pub mod Quorums
pub mod Below
pub mod Changes
pub mod Chosen
pub mod Written
pub mod Stood
pub mod Begins
pub mod Laws
