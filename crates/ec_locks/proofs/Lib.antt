pub mod CutOrder
pub mod Laws
pub mod Queues
pub mod Steps
