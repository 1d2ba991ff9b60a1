pub mod Codes
pub mod Span
