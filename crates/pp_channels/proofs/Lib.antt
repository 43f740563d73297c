pub mod Numbering
pub mod Seating
