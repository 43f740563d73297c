pub mod Played
pub mod Starting
pub mod Loops
