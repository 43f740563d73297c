pub mod Trusty
pub mod Laws
