pub mod Operators
pub mod Kinds
