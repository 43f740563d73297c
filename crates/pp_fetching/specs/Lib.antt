pub mod Fetching
pub mod Owners
pub mod Laws
