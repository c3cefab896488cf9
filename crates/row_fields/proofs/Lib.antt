pub mod Parts
pub mod Writes
