pub mod Bits
pub mod Maps
