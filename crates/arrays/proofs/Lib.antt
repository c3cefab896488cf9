pub mod Lengths
pub mod Elements
pub mod Sizes
pub mod Allocs
pub mod Wholes
