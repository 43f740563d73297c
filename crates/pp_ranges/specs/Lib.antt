pub mod Edits
pub mod Covering
