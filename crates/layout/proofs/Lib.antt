pub mod Rounding
pub mod Marks
pub mod Pass
pub mod Bounds
