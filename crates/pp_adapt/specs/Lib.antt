pub mod Counts
pub mod Extents
pub mod FileState
pub mod Folder
pub mod Gathered
pub mod Lines
pub mod Stored
pub mod UdpState
