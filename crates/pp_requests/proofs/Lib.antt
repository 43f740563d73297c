pub mod Entries
pub mod Chunks
pub mod LeastNumbers
pub mod Calls
pub mod SeatCounts
