pub mod Allocation
pub mod Collect
pub mod Vars
