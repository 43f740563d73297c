mod Examples
mod RunExamples
mod KeptRuns
mod BrokenRuns
pub mod ReadStories
pub mod Growth
mod Batches
pub mod Meters
