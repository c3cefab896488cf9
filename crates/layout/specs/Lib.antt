pub mod Pass
pub mod Lines
