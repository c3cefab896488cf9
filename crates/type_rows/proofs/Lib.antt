pub mod Wrotes
pub mod Needs
pub mod Elements
pub mod All
