pub mod Octets
pub mod Joins
pub mod Pieces
