pub mod Wrote
pub mod Over
pub mod Decimal
pub mod Hex
pub mod Back
pub mod Uncut
pub mod Writes
