pub mod Claim
pub mod Climb
pub mod Judge
pub mod Settle
pub mod Law
pub mod Datagram
pub mod Ends
