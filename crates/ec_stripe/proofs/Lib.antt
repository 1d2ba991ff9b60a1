pub mod Rounding
pub mod Combining
pub mod Decoding
