pub mod Reading
pub mod Putting
pub mod Names
pub mod Filling
pub mod Sending
pub mod Hashes
