pub mod Widths
pub mod Wrapping
