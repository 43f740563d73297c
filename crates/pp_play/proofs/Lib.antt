pub mod Deliveries
pub mod Books
pub mod Endings
pub mod Few
pub mod Firsts
pub mod Plays
pub mod Stages
pub mod Turned
