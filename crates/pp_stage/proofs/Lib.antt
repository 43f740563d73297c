pub mod Acts
pub mod Fills
pub mod Opens
pub mod Taken
