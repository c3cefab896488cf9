pub mod Wrote
pub mod Plain
pub mod Writes
