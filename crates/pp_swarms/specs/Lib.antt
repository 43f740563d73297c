pub mod Routing
pub mod Sharing
pub mod Hubs
