pub mod Law
pub mod Told
pub mod Tiers
pub mod Examples
