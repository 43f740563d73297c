pub mod Lasting
pub mod Keeping
pub mod Lives
pub mod Begins
pub mod Actors
pub mod Orders
pub mod Trusty
