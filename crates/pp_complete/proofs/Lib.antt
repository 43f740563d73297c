pub mod Faultless
pub mod Ways
pub mod PeakWays
pub mod Peaked
pub mod Knowing
pub mod Completing
