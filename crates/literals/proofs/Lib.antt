pub mod Names
pub mod Lines
pub mod Selectors
pub mod Placing
pub mod Spans
pub mod Elements
pub mod Turns
