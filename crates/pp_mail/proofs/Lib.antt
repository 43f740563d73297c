pub mod Letters
pub mod Kept
pub mod Delivered
pub mod Peers
