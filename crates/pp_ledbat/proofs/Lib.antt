pub mod Samples
pub mod Bases
pub mod Bounds
pub mod Timeouts
pub mod Calls
pub mod Fresh
pub mod Cuts
