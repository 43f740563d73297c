pub mod GivenBack
pub mod Counts
pub mod Picked
pub mod Owners
