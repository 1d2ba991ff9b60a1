pub mod Decoded
pub mod Range
pub mod RangeLaws
pub mod Read
pub mod ReadSound
pub mod Sound
pub mod Stat
pub mod Stripes
