pub mod Starting
pub mod Keeping
pub mod Lasting
pub mod Going
pub mod Actor
