pub mod Mail
pub mod Letters
