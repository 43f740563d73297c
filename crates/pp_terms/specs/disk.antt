-- A disk and what a crash may leave, and the file of a store on it.
pub mod Disk
pub mod Untouched
pub mod Calls
pub mod Store
pub mod Image
pub mod Sound
