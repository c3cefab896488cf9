pub mod Table
pub mod Fields
pub mod Laws
pub mod Compared
