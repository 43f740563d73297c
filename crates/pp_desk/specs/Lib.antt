pub mod Steps
pub mod Delivers
pub mod Chunks
pub mod Laws
pub mod Stored
pub mod Hearing
