pub mod Standing
pub mod Hearing
pub mod Laws
pub mod Sending
pub mod Serving
pub mod Greeting
pub mod Turning
pub mod Reading
