pub mod Cases
pub mod Sizes
pub mod Pointers
