pub mod Lines
pub mod Leaves
