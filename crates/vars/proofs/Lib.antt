pub mod Lines
pub mod Values
pub mod Names
pub mod Items
