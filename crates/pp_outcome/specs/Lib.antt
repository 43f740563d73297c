pub mod Announced
pub mod Held
pub mod Outcome
