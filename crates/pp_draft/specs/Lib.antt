pub mod Notes
pub mod Datagrams
pub mod Puts
pub mod Posts
pub mod Deliveries
