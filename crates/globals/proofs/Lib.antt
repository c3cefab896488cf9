pub mod Allocation
pub mod Declare
pub mod Collect
pub mod Vars
pub mod Laid
