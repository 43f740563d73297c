pub mod HeaderBytes
pub mod Reading
pub mod Children
pub mod Layering
pub mod Slots
pub mod Holds
pub mod Finding
