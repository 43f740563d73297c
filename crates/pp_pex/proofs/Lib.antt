pub mod Tables
pub mod Distinct
