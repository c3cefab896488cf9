pub mod Texts
pub mod Loops
pub mod Wholes
pub mod Meets
