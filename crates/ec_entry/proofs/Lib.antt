pub mod Firsts
pub mod Gathering
pub mod Makes
pub mod Naming
pub mod Readdirs
pub mod SetAttrs
pub mod Unlinks
