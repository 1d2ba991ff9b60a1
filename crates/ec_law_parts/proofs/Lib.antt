pub mod Scans
pub mod Ending
pub mod Tables
pub mod DataTables
pub mod Naming
pub mod OneTurn
pub mod DataFirst
pub mod Worlds
