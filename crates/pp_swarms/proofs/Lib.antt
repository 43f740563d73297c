pub mod Lists
pub mod Loops
pub mod Shares
pub mod Routes
