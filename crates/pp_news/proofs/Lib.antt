pub mod Rising
pub mod RunSteps
pub mod JoinSteps
pub mod Newest
pub mod Telling
