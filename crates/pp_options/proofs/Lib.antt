pub mod Going
pub mod Found
pub mod Writes
