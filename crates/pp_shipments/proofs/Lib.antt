pub mod Taking
pub mod Announcing
pub mod Plans
pub mod Sending
pub mod Strays
pub mod Shipments
