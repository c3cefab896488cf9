pub mod Elements
pub mod Rows
