pub mod Pieces
pub mod Player
pub mod Chunks
pub mod Steps
pub mod Played
