pub mod Rows
pub mod Maps
