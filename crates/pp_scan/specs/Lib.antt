pub mod Look
pub mod Header
pub mod Layers
pub mod Holding
pub mod Gates
pub mod Verify
pub mod Scan
