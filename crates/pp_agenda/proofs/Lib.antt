pub mod Filling
pub mod Awaiting
pub mod Parts
pub mod Telling
pub mod Passing
pub mod Exchanging
pub mod Agreeing
