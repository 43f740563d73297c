pub mod Sizing
pub mod Turning
