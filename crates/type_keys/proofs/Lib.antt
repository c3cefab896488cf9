pub mod Distinct
pub mod Table
pub mod Elements
pub mod Positions
