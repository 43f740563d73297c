pub mod Used
pub mod Done
pub mod Sent
pub mod Shown
pub mod Waiting
pub mod Turned
pub mod Opened
