pub mod Runs
pub mod NodeSpans
pub mod Dyadic
pub mod CoverSteps
pub mod Lengths
pub mod Fronts
