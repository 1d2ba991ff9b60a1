pub mod Rests
pub mod Zeros
pub mod RecordMaps
pub mod NameMaps
pub mod Pages
