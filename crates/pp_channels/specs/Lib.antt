pub mod Seats
pub mod Supporting
pub mod Timing
pub mod Views
