pub mod Heads
pub mod Laws
pub mod Making
pub mod Restart
pub mod Worlds
