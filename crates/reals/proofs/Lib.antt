pub mod Operators
pub mod Leading
pub mod Whole
