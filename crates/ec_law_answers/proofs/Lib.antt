pub mod Answering
pub mod Committed
pub mod Reaching
