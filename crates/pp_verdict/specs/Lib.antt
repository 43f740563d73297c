pub mod Answers
pub mod Chunks
pub mod Courses
pub mod Faults
pub mod Findings
pub mod Reaches
pub mod Rooted
pub mod Shakes
