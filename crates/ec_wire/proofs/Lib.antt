pub mod Kept
pub mod Phases
pub mod PlaceOrder
pub mod WordLemmas
