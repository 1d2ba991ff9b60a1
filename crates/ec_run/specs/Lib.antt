pub mod VolumeText
pub mod Consistency
pub mod Starts
pub mod Reports
pub mod Run
