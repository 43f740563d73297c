pub mod Gains
pub mod Gates
pub mod Ends
