pub mod LeavesOff
pub mod Laws
pub mod Names
