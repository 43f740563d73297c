pub mod Turning
pub mod Promising
pub mod Taking
pub mod Alike
