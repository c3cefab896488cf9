pub mod Written
pub mod Values
