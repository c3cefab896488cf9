pub mod Passes
pub mod Group
pub mod Lines
pub mod Steps
pub mod Walk
