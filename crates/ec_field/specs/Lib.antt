pub mod Field
pub mod Chunk
pub mod Code
