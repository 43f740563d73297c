pub mod Written
pub mod Chunks
pub mod Steps
pub mod Played
