pub mod Stands
pub mod Data
pub mod Posts
pub mod Known
pub mod Runs
pub mod Standing
pub mod Laws
pub mod WorkedDeeds
