pub mod Front
pub mod Told
pub mod Judged
pub mod Shape
