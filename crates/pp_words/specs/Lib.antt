pub mod Commands
pub mod Usage
pub mod CommandLine
pub mod Views
pub mod Slots
pub mod Digits
pub mod Example
