pub mod Splits
pub mod Saying
pub mod Delivering
pub mod Serving
pub mod Following
pub mod Tales
pub mod Heard
