pub mod Attachings
pub mod Crashes
pub mod Possible
pub mod Replays
pub mod Telling
pub mod Written
pub mod Zeros
pub mod CallCounts
