pub mod Flights
pub mod Stories
