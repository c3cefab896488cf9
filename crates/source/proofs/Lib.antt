pub mod Walk
pub mod Declares
