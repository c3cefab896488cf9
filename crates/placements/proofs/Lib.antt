pub mod Ranges
pub mod Same
pub mod Fillings
pub mod Steps
pub mod Values
