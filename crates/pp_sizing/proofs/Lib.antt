pub mod Records
pub mod Hearing
pub mod Turns
pub mod Closing
pub mod Loops
