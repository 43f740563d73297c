pub mod Count
pub mod Place
pub mod tree
pub mod disk
pub mod format
pub mod command
pub mod Law
pub mod Example
