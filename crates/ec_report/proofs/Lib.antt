pub mod Answering
pub mod Growing
pub mod Lining
pub mod Lists
pub mod Naming
pub mod Stores
