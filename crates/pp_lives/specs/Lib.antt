pub mod Reading
pub mod Standing
pub mod Calls
pub mod Arriving
pub mod Arrived
pub mod Sending
pub mod Laws
pub mod Fars
