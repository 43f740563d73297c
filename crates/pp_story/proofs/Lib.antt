pub mod Written
pub mod Telling
pub mod Standings
pub mod Steps
pub mod Messages
