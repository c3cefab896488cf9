pub mod Needs
pub mod Shapes
