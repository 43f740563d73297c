pub mod Filling
pub mod Opening
pub mod Shown
pub mod Turned
