pub mod Lists
pub mod Calls
pub mod Moments
pub mod Seats
