pub mod Orders
pub mod Doings
pub mod Sendings
pub mod Showing
pub mod Waits
pub mod Turns
pub mod Openings
