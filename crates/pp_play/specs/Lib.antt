pub mod Keeping
pub mod First
pub mod Playing
pub mod Replaying
pub mod Stage
pub mod Recording
