pub mod Views
pub mod Put
