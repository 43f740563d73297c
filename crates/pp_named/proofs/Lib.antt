pub mod Fronts
pub mod Shapes
