pub mod Faults
pub mod Info
pub mod Lines
pub mod Reading
pub mod Records
