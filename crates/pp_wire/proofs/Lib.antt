pub mod Puts
pub mod Halving
